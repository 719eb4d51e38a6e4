pub mod Divisors
pub mod Nearness
pub mod Places
pub mod Points
pub mod Rows
