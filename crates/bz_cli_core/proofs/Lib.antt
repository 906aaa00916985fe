pub mod Words
pub mod Spelt
pub mod Outcomes
pub mod Pieces
pub mod Running
