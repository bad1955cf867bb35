pub mod Rings
pub mod Counted
pub mod Moves
