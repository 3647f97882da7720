-- The proofs behind what the code finds
pub mod Shaping
pub mod Listed
