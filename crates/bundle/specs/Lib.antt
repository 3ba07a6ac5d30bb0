-- What the contracts of the bundle file cite, and what an accepted file is.
pub mod Bytes
pub mod Reading
pub mod Writing
pub mod Numbers
pub mod Accepted
