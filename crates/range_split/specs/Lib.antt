pub mod Points
pub mod Least
pub mod Choice
pub mod Sides
pub mod Parts
pub mod Quarters
pub mod PartOf
