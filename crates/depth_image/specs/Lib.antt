pub mod Picture
pub mod Samples
