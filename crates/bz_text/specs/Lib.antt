pub mod Writing
pub mod Growing
pub mod Json
pub mod FileNames
pub mod Pieces
pub mod Saying
