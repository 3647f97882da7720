-- The proofs behind the theorems
pub mod Whole
pub mod Reading
pub mod Outcomes
pub mod Either
pub mod Recovering
