pub mod CellBins
pub mod Passing
pub mod Callers
pub mod Frames
pub mod Owners
pub mod Shares
