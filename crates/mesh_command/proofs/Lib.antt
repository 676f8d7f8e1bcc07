pub mod Deeds
pub mod Ends
pub mod Keeps
pub mod Given
