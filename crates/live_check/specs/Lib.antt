pub mod Logs
pub mod Waiting
pub mod Standing
pub mod Moving
pub mod Fitting
pub mod Spans
