pub mod Streams
pub mod Tallies
pub mod Dues
pub mod Groups
pub mod Items
