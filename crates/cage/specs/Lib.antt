pub mod Chains
pub mod Fans
pub mod Sizes
