-- What the contracts of the chain of refusals cite.
pub mod Chain
pub mod Answers
