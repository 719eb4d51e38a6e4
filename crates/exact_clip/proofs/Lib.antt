pub mod Products
pub mod Floors
pub mod Nears
pub mod Terms
pub mod Worked
pub mod Sums
pub mod Reach
