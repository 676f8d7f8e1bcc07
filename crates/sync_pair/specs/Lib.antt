pub mod Stores
pub mod Agreement
pub mod Passing
pub mod Meeting
pub mod Alone
