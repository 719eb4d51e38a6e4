pub mod QueueParts
pub mod Frames
pub mod QueueRule
pub mod NumberRule
pub mod Tasks
pub mod Intakes
pub mod Submitters
