pub mod Looked
pub mod Marking
