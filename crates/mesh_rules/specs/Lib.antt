pub mod Events
pub mod Reaching
pub mod Meetings
pub mod Laws
pub mod Small
