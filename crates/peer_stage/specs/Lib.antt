pub mod World
pub mod Status
pub mod Faults
pub mod Deed
pub mod Stages
pub mod Inputs
pub mod Shelves
pub mod Steps
