pub mod ClipCoordinates
pub mod Coordinates
pub mod Rows
