pub mod Fates
pub mod Sending
pub mod Holding
pub mod Each
pub mod Joined
pub mod Several
