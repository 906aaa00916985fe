pub mod Causes
pub mod Leading
pub mod Owning
pub mod Steps
