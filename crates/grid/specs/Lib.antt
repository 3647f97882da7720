pub mod Limits
pub mod Tile
pub mod Levels
