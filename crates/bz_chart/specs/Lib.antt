pub mod Pieces
pub mod Charting
