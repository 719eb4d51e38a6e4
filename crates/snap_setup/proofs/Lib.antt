pub mod Tops
pub mod Floors
pub mod NarrowPlaces
pub mod Reached
pub mod Areas
pub mod KeptPieces
pub mod FrameLists
pub mod Batches
pub mod Takes
pub mod BoxSteps
pub mod Rows
pub mod ValidPieces
pub mod WithinTop
pub mod PieceBoxes
pub mod SharedVertices
mod Joining
