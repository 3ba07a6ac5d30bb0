-- What the contracts of MIN over a whole trace cite beside document 01's definitions: devices of the code, and what the policy keeps.
pub mod Devices
pub mod Fair
