-- What the proofs of MIN over a whole trace use, and that its choice is rule 3's.
pub mod Farthest
pub mod Scan
pub mod Serving
