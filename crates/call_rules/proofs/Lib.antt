pub mod Elements
pub mod Told
pub mod Parts
pub mod Visits
