pub mod Parts
pub mod Reciprocals
