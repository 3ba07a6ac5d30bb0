-- What the contracts of reading a bundle file cite.
pub mod Reading
pub mod Numbers
