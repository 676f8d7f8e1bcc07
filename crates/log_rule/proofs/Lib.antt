pub mod Sums
pub mod Prefixes
pub mod Books
pub mod Swaps
pub mod Tickets
pub mod Turns
pub mod Seats
