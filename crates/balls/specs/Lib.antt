pub mod Lists
pub mod Checks
pub mod Told
pub mod Rows
