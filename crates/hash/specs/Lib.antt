pub mod Fnv1a
pub mod Colours
pub mod Kept
