-- What the proofs of the map of occupied frames use, and what its bits mean.
pub mod Bits
pub mod Lowest
pub mod Made
