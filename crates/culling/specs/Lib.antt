pub mod Summary
pub mod Picture
pub mod Outcomes
pub mod Checking
pub mod Runs
pub mod Promises
