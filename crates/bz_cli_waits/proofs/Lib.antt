pub mod Waited
pub mod Ending
