pub mod Boxes
pub mod Clip
pub mod Held
pub mod Lost
pub mod Parts
pub mod Terms
