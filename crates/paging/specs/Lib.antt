-- Document 01's definitions and, of document 02, which frame holds a page: what the contracts of the other crates cite, and worked cases.
pub mod Lists
pub mod Refusals
pub mod Held
pub mod Rules
pub mod Walk
pub mod Plans
pub mod Calls
pub mod Services
pub mod Meanings
pub mod Cases
