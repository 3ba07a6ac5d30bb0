-- What the contracts of the report's text cite, and worked cases of it.
pub mod Report
pub mod Cases
