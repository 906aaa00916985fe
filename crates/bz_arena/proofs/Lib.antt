pub mod Blocks
pub mod Crossing
pub mod Ends
pub mod Joined
pub mod Pairs
