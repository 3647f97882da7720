pub mod Reading
pub mod Extents
pub mod Claims
