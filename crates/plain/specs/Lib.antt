pub mod Level
pub mod Held
