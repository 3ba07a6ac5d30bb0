-- What the proofs of the search among entries use, and its laws.
pub mod Long
pub mod Search
pub mod Chosen
