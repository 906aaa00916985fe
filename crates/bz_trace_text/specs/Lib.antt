pub mod Writing
pub mod Reading
pub mod Texts
pub mod Counting
pub mod Spelling
pub mod Keeping
pub mod Printing
