pub mod Spellings
pub mod Growing
pub mod Handing
pub mod Causes
pub mod Meaning
pub mod Signing
