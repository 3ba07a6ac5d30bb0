-- What the proofs of LRU over a whole trace use.
pub mod Lasts
