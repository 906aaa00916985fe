mod Tables
pub mod Pieces
pub mod Names
