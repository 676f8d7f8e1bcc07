pub mod Passes
pub mod Answers
pub mod Closed
pub mod Histories
pub mod Seats
pub mod Joined
