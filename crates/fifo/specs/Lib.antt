-- What the contracts of FIFO over a whole trace cite beside document 01's definitions: a device of the code, and what the policy keeps.
pub mod Devices
pub mod Round
