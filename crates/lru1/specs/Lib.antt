-- What the contracts of LRU over a whole trace cite beside document 01's definitions: what the policy keeps.
pub mod Lasts
