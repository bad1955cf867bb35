pub mod Writing
pub mod Cases
