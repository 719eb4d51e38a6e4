pub mod Words
pub mod Rule
pub mod Cells
pub mod Opened
pub mod Passes
pub mod Snapshots
pub mod Standing
