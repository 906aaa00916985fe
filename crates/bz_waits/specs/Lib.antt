pub mod Adding
pub mod Cycles
pub mod Waiting
pub mod Stuck
pub mod Holding
pub mod Freeing
pub mod Rings
