-- The old record, and how it is carried over to the new one.
pub mod Old
pub mod Carried
