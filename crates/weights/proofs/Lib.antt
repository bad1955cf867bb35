pub mod Floats
pub mod Means
pub mod Joins
pub mod Gathered
pub mod Cases
