pub mod Past
pub mod Cells
pub mod Turns
pub mod Choices
pub mod Together
