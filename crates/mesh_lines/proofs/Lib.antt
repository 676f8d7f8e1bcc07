pub mod Cuts
pub mod Words
pub mod Verbs
pub mod Lines
pub mod Texts
