pub mod Layout
pub mod Lifelines
