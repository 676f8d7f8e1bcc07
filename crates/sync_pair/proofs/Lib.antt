pub mod Stores
pub mod SelfContained
pub mod Agreeing
pub mod TurnEnds
pub mod Plain
pub mod Speaking
pub mod Exchanging
pub mod Alone
