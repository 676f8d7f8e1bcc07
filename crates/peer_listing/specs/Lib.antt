pub mod Listing
pub mod Generator
pub mod Signing
pub mod Ranges
pub mod Summary
