pub mod Playing
pub mod Halves
pub mod OfRuns
pub mod Kept
pub mod Gathers
