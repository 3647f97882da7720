-- The proofs behind the passes
pub mod Carrying
pub mod Parting
