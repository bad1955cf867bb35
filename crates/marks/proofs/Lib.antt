pub mod Marks
pub mod Marking
