pub mod Given
pub mod Areas
pub mod Exchanging
pub mod Held
pub mod Generated
pub mod Promises
