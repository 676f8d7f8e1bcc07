pub mod Coming
pub mod EachVisit
pub mod Passing
pub mod Running
pub mod Visiting
