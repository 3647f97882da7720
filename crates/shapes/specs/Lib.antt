pub mod Shaping
pub mod Laws
