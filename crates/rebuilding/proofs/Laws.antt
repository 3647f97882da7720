-- The proofs behind the theorems
pub mod Ruled
pub mod Halting
pub mod Stopping
pub mod Ruling
pub mod Replaying
pub mod Lasting
pub mod Rebuilding
pub mod Leaving
