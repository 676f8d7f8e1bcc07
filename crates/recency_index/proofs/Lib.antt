pub mod Order
pub mod Newest
pub mod Rows
pub mod Without
pub mod Pairs
pub mod Taken
