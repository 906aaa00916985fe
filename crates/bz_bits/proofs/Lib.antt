pub mod Rows
pub mod States
pub mod Search
pub mod Words
pub mod Ones
pub mod Told
pub mod Firsts
