pub mod Drawn
pub mod Edges
pub mod Drawing
pub mod Behind
