pub mod Saving
pub mod Statuses
pub mod Beginning
