-- What the proofs of Count and Write a plan use, and the laws of both services.
pub mod Chains
pub mod Services
