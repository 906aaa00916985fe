pub mod Sent
pub mod NameLaws
pub mod Said
pub mod JsonLaws
pub mod Grown
