-- What the contracts of the rules' walks cite.
pub mod Hands
pub mod Tied
