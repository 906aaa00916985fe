pub mod Chunks
pub mod Claims
pub mod Lends
pub mod Nodes
pub mod Pairs
