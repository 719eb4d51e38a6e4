pub mod Members
pub mod Fans
pub mod Pieces
