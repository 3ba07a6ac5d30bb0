-- What the proofs of FIFO over a whole trace use.
pub mod Round
