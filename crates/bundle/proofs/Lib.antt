-- What the proofs of the bundle file use, and the laws of reading and writing it.
pub mod Bytes
pub mod Chains
pub mod Back
pub mod Laws
pub mod Accepted
pub mod OneReading
