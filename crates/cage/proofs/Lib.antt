pub mod Search
pub mod Chains
pub mod Across
pub mod Marking
pub mod Rounds
pub mod Sizes
pub mod Stages
pub mod SharpList
