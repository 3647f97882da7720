pub mod Recovery
pub mod Notes
pub mod Laws
