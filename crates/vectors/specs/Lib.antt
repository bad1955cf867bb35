pub mod Narrow
pub mod Vectors
