pub mod Moments
pub mod Owners
pub mod Rules
pub mod Seen
pub mod Standings
pub mod Stopping
