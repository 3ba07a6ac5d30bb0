-- What the walk of a plan is promised to answer; Devices has what only private functions promise.
pub mod Check
pub mod Devices
