pub mod Laws
pub mod Turns
pub mod Theorems
pub mod Demands
pub mod Sheets
pub mod Counts
pub mod Once
