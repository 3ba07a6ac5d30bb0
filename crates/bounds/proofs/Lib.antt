-- The proof of demand 3, and the law of Write a plan and Check together.
pub mod Pigeonhole
pub mod PlanSide
pub mod Phases
pub mod RuleSide
pub mod Bound
pub mod Answers
pub mod Written
