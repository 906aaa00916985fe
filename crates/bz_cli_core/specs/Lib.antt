pub mod Opening
pub mod Playing
pub mod Running
pub mod Sending
