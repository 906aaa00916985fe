pub mod Lines
pub mod Naming
pub mod Outside
