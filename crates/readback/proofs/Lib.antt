pub mod Laws
pub mod Theorems
pub mod Demands
pub mod Once
