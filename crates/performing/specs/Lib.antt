pub mod Reports
pub mod Laws
