pub mod Links
pub mod Numbers
pub mod Rows
pub mod Starts
pub mod Growth
pub mod Standing
pub mod Moves
