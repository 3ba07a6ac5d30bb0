-- What the contracts of records in words cite.
pub mod Records
