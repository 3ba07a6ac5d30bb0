-- What the proofs of the pages held use, and what walks that hold pages use of them.
pub mod Counting
pub mod Keeping
pub mod Placing
