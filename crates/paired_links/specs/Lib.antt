pub mod Gates
pub mod Pairs
pub mod Pipes
