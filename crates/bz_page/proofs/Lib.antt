pub mod Escapes
pub mod Grown
pub mod Paged
pub mod Told
