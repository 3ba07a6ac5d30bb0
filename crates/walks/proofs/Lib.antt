-- What the proofs of the rules' walks use.
pub mod Hands
pub mod Numbers
pub mod Walking
