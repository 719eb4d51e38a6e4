pub mod Rays
pub mod Within
pub mod Seen
pub mod Narrow
pub mod Forms
pub mod Certified
pub mod Nearness
