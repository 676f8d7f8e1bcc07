pub mod Rules
pub mod Signing
pub mod Open
pub mod OpenLaws
pub mod Claims
pub mod OpenClaims
