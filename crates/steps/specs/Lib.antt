-- What one request over a record's parts answers.
pub mod Devices
