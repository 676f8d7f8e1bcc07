pub mod Answering
pub mod ByEvents
