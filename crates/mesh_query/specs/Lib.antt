pub mod Meshes
pub mod Asked
pub mod Setup
