-- What the proofs of LRU-2 over a whole trace use.
pub mod Twice
