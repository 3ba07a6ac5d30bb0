-- What the proofs of putting text into a room use.
pub mod Putting
pub mod Decimal
