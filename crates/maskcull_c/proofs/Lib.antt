pub mod Bands
mod Clearing
mod AllTiles
mod Codes
mod Eight
mod Hiding
mod InPicture
mod Joined
mod Lenses
mod Listed
mod Merged
mod MeshPieces
mod MeshVerdicts
mod Nearness
mod Pictures
mod Slices
mod Triangles
mod Verdicts
