pub mod Lanes
pub mod Quotients
pub mod Dividing
pub mod Placing
pub mod Nearing
pub mod Pointing
pub mod Rowing
