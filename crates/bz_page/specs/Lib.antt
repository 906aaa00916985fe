pub mod Escaping
pub mod Rows
pub mod Sources
pub mod Blocks
pub mod Pages
pub mod Paging
