pub mod Form
pub mod Reading
pub mod Inside
pub mod Calls
pub mod Cases
