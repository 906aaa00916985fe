pub mod Endings
pub mod Programs
