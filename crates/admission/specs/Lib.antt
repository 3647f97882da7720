pub mod Verdicts
pub mod Laws
