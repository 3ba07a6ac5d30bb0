-- What the proofs of words in a file's bytes use.
pub mod Bytes
pub mod Places
