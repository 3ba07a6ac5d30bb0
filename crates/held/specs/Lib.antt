-- What the contracts of the pages held cite.
pub mod Index
pub mod Placing
