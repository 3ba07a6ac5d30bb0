-- What the contracts of putting text into a room cite.
pub mod Putting
pub mod Decimal
pub mod Lines
pub mod Writing
