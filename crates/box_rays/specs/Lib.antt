pub mod Objects
pub mod Corners
pub mod HalfSpaces
pub mod Frustums
pub mod Answers
