pub mod Turns
pub mod Table
