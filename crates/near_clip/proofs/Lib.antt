pub mod Guarded
pub mod Reaches
pub mod Rows
