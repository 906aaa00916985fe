pub mod Surveys
pub mod Listing
pub mod Listed
pub mod PartLists
