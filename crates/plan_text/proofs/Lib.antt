pub mod Runs
pub mod Lines
pub mod Entries
pub mod Blocks
pub mod Unique
pub mod Complete
pub mod Mapped
