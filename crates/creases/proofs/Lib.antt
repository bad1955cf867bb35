pub mod Creases
pub mod Rims
pub mod Counted
pub mod Moves
