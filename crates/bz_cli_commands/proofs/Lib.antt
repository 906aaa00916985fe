pub mod Found
pub mod Performed
pub mod Made
