-- What the proofs of one request use.
pub mod Inside
