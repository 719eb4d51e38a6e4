pub mod QueueKeeps
pub mod NumberKeeps
pub mod Intaking
pub mod Submitting
pub mod Opening
pub mod GoingOn
