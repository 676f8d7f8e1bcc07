pub mod Front
pub mod Form
pub mod Reader
pub mod Spelling
pub mod Reading
pub mod Memory
pub mod Answers
pub mod Laws
