-- The blank entry, and what the choice of a frame answers; what the search of one answers is `found` of crate `paging`.
pub mod Blank
pub mod Devices
