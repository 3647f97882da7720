pub mod Laws
pub mod Downward
