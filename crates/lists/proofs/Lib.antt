pub mod Places
pub mod Counting
pub mod Stores
pub mod Pairs
