pub mod Faults
pub mod Pooling
