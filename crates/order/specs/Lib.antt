pub mod Seen
pub mod Balls
pub mod Views
pub mod Examples
pub mod Mistakes
