pub mod Clip
pub mod Products
