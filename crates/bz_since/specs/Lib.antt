pub mod Since
pub mod Halving
pub mod Keeping
