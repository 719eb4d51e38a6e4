pub mod Counting
pub mod PlacesInTurn
pub mod Lists
pub mod BinLooks
