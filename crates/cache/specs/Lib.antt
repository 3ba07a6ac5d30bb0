-- What the contracts of the cache record cite.
pub mod Record
pub mod Sound
pub mod Feed
pub mod Lookup
pub mod Devices
