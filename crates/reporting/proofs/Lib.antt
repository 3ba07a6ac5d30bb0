-- What the proofs of the report's text use, and its laws: no report is longer than 256 bytes, the front of a file gives the report of the whole, and the numbers are counts.
pub mod Reading
pub mod Short
pub mod Front
pub mod Counts
