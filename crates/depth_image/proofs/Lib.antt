pub mod Ranges
pub mod Numbers
pub mod Samples
pub mod Pixels
pub mod Pictures
