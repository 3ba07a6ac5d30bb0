-- What the proofs of soundness use, and its laws.
pub mod All
pub mod Seen
pub mod Words
pub mod Parts
pub mod Pairs
pub mod Orderly
pub mod Meaning
