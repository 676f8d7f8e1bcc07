pub mod Kept
pub mod Tallies
pub mod Links
pub mod Answers
pub mod Readers
pub mod Found
