-- What the proofs of the chain of refusals use, and its laws.
pub mod Chain
pub mod Search
