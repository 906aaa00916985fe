pub mod Ports
pub mod Tallies
pub mod Watched
