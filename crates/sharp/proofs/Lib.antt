pub mod Marching
pub mod First
pub mod Last
