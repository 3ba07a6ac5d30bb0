-- What the contracts of Better of two cite; what Check answers stands in crate `plans`.
pub mod Better
