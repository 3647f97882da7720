pub mod Ascents
pub mod Greatest
pub mod Merging
pub mod Keeping
pub mod Spots
