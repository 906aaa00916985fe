pub mod Spelling
pub mod Telling
pub mod Each
pub mod Ordered
