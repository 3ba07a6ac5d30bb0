-- What the contracts of words in a file's bytes cite.
pub mod Bytes
pub mod Places
