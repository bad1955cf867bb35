pub mod Sizes
pub mod Held
pub mod Loaded
pub mod Last
pub mod First
