-- What the proofs of the exports use, and the laws of records in too few words.
pub mod Lent
