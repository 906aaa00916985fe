pub mod Lines
mod Typed
