pub mod Groups
pub mod Statuses
pub mod Ports
pub mod Repeated
