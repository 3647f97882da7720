pub mod Filter
pub mod Laws
