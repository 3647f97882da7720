pub mod Rectangles
pub mod Claims
pub mod Fitting
