pub mod Found
pub mod Corners
pub mod Walks
pub mod Rims
pub mod Marking
