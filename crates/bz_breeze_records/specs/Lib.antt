pub mod Held
pub mod Records
pub mod Parts
