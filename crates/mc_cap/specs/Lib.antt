pub mod Signature
pub mod Grant
pub mod Forms
pub mod Messages
pub mod Valid
pub mod Signed
