pub mod Shown
pub mod Named
pub mod ShortTexts
pub mod Faults
pub mod Completing
pub mod Choosing
pub mod Stopping
pub mod Completions
