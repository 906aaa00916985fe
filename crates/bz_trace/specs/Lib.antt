pub use Rattle.bz_trace_text.specs.Writing
pub use Rattle.bz_trace_text.specs.Texts
pub use Rattle.bz_trace_text.specs.Counting
pub mod Verdicts
pub mod Pieces
pub mod Following
pub mod Reading
pub mod Watching
