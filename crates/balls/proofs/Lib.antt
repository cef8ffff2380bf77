pub mod Counting
pub mod Meeting
pub mod Inserting
pub mod Sorted
pub mod Nearby
pub mod Entries
pub mod Told
