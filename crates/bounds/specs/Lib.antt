-- Demand 3 as statements: over the definitions, and over the answers of the services.
pub mod Bound
pub mod Answers
