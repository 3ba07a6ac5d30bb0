-- What the proofs of the walk of a plan use.
pub mod Steps
