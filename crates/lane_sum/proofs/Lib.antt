pub mod Fields
pub mod TotalLaws
