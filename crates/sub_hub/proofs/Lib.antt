pub mod Hearing
pub mod Meaning
pub mod Pumps
pub mod Keys
pub mod Slots
