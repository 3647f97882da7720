pub mod Looks
pub mod Laws
