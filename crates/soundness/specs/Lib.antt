-- When a record is sound, over its parts, and what the private functions that test it answer.
pub mod Sound
pub mod Devices
