pub mod Errors
pub mod Crosses
pub mod Determinants
pub mod Steps
pub mod Widths
