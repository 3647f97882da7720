pub mod Members
pub mod Noting
pub mod Downward
pub mod Sweeping
pub mod Moving
