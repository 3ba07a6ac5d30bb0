-- What the proofs of reading a bundle file use, and the laws of a file longer than every bundle.
pub mod Marks
pub mod Chains
pub mod Longer
