pub mod Turns
pub mod Forms
pub mod Faults
pub mod Parts
pub mod Shapes
pub mod Places
pub mod Views
