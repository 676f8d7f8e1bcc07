pub mod Interest
pub mod Limits
pub mod Kept
