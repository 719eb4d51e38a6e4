pub mod NearPart
pub mod Reach
