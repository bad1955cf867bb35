pub mod Sums
pub mod Valence
pub mod Rings
pub mod Held
pub mod Sizes
pub mod FinitePositions
pub mod FiniteNormals
