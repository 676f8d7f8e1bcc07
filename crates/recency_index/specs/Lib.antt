pub mod Recency
pub mod Rows
pub mod Orders
pub mod OrderLaws
pub mod Items
