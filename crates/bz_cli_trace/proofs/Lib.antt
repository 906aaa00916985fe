pub mod Splits
pub mod Judges
pub mod Joins
pub mod Takes
pub mod Makes
