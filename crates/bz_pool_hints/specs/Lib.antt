pub mod HintRules
pub mod Hints
pub mod Stolen
