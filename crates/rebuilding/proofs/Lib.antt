pub mod Laws
pub mod Demands
pub mod Replays
pub mod Once
