pub mod Rows
pub mod Kinds
pub mod Text
pub mod Reading
pub mod Stages
pub mod Refusers
