pub mod Layout
pub mod Length
pub mod Fault
pub mod PartsFault
pub mod Header
pub mod Law
pub mod Reading
