pub mod Cuts
pub mod Lines
pub mod Text
pub mod Named
pub mod Laws
