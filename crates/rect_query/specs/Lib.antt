pub mod Area
pub mod Rectangles
pub mod Boxes
pub mod Reaches
pub mod Ratios
pub mod References
pub mod Settled
