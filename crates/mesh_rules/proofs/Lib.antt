pub mod Carrying
pub mod Listing
pub mod Covered
pub mod Steps
pub mod Runs
pub mod Smalls
