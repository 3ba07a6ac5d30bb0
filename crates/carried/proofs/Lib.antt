-- Every answer is the one that the old record gave.
pub mod Carried
