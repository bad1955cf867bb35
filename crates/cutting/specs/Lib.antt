pub mod Output
pub mod Cases
