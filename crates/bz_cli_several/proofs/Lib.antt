pub mod Tallies
pub mod Told
pub mod Lines
pub mod Joins
