pub mod Faces
pub mod Words
pub mod Rings
