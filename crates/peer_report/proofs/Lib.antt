pub mod Statuses
pub mod LinkLines
pub mod Reporting
