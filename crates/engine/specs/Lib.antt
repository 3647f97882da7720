pub mod Counting
pub mod Events
pub mod Forms
