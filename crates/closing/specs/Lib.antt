pub mod Ending
pub mod Forms
