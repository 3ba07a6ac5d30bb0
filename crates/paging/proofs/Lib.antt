-- Laws of the rules, the walk, plans and calls, and what proofs of other crates use.
pub mod Lists
pub mod Choice
pub mod Held
pub mod Frames
pub mod Sight
pub mod Moments
pub mod Drops
pub mod Own
pub mod PlanRule
pub mod Calls
pub mod Picks
pub mod Writing
pub mod Services
