pub mod Lines
pub mod Placed
