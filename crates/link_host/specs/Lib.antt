pub mod Begun
pub mod Hosted
pub mod Keeping
pub mod Visits
