pub mod Grouping
pub mod Hulls
pub mod Hidden
pub mod Around
pub mod Text
