pub mod Truth
pub mod Lists
