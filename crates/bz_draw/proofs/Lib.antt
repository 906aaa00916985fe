pub mod Ends
pub mod EdgeLaws
pub mod NodeLaws
pub mod Moments
