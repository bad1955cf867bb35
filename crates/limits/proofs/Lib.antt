pub mod Search
pub mod Sizes
