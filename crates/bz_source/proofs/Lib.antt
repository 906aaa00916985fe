pub mod Walking
pub mod LineCounts
pub mod Net
pub mod Fronts
pub mod Missing
pub mod Cut
