pub mod Lines
pub mod Inputs
