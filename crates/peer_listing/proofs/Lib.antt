pub mod Signed
pub mod Lengths
pub mod Kept
pub mod Framed
pub mod Ranges
pub mod Signatures
