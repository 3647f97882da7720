pub mod Seams
pub mod Calls
pub mod Reads
pub mod Printed
pub mod Rectangles
pub mod Mends
pub mod Ends
