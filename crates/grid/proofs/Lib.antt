pub mod Laws
pub mod Addresses
