pub mod Authorised
pub mod Rows
pub mod Known
pub mod Places
pub mod Batch
pub mod Standings
