pub mod Places
pub mod Memory
pub mod Streams
pub mod Feeding
pub mod Steps
pub mod Pieces
