-- The proofs behind Addresses.antt, and the counts of levels
pub mod Keys
pub mod Counting
