pub mod Head
pub mod Along
pub mod Sheets
