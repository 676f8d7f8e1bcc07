pub mod OpenSignatures
pub mod Made
pub mod Accepting
