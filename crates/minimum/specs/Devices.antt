-- Devices of the code: what only private functions promise. The public promise is said in document 01's definitions.
pub mod Turns
