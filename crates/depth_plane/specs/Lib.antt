pub mod Plane
pub mod Corner
pub mod Vertices
pub mod Floors
