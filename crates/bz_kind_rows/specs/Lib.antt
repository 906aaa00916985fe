pub use Rattle.bz_model.specs.Rows
pub mod Texts
pub mod Naming
pub mod Table
