-- What the proofs of records in words use, the laws of reading a record back, and where what it says stands in its words.
mod Loops
pub mod Back
pub mod Places
