pub mod Normals
