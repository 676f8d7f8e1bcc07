pub mod Steps
pub mod Turned
pub mod NewPasses
pub mod Joined
pub mod Offers
pub mod Histories
