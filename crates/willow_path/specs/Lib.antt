pub mod Key
pub mod Path
pub mod PathBytes
pub mod PathPush
pub mod PathSpelling
pub mod Successor
