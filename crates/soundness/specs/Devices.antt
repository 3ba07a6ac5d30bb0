-- Devices: what private functions answer. Document 01's words don't stand here.
pub mod Scan
