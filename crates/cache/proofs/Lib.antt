-- What the proofs of the cache record use, and the laws of soundness, of Feed and of which frame holds a page.
pub mod Form
pub mod Soundness
pub mod Least
pub mod Step
pub mod Feeding
pub mod Changes
pub mod Looking
