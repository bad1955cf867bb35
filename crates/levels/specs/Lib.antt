pub mod Level
pub mod Moves
