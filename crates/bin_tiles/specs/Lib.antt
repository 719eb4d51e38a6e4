pub mod Bins
pub mod BinViews
pub mod Plain
