-- The laws of the services Check and Better of two, which their proofs use too.
pub mod Accepted
pub mod TwoPlans
