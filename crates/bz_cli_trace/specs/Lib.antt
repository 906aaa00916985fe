pub mod Splitting
pub mod Texts
pub mod Taking
pub mod Judging
pub mod Telling
pub mod Making
pub mod Joining
