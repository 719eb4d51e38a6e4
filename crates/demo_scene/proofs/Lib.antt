pub mod Ranges
pub mod Draws
pub mod DemoScene
