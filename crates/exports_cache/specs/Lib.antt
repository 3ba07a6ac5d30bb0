-- What the contracts of the exported services cite.
pub mod Words
pub mod Lent
pub mod Devices
