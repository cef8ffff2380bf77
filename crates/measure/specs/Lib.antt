pub mod Distance
pub mod Metric
pub mod Squares
pub mod Settling
pub mod Incidence
pub mod Links
pub mod Measuring
pub mod Example
