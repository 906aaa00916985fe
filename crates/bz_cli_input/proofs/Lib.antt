pub mod Written
pub mod Answered
pub mod Lines
pub mod ShortWords
pub mod Marked
mod Users
mod Chosen
