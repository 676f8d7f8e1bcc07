pub mod PartsOf
pub mod CoveredRows
pub mod Tallying
pub mod Outcomes
pub mod Seen
pub mod Fronts
pub mod Moves
