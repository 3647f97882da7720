pub mod Near
pub mod Passes
