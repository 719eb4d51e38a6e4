pub mod Orders
pub mod Steps
pub mod Sums
pub mod Sides
pub mod Points
pub mod Objects
pub mod Floors
