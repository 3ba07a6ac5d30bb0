-- What the contracts of the map of occupied frames cite.
pub mod Map
pub mod Cases
