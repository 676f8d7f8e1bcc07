pub mod Heard
pub mod Watchers
pub mod Hubs
pub mod Seen
pub mod Calls
