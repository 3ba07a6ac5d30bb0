-- Devices: what the functions below Feed answer. Document 01's words don't stand here.
pub mod Search
