pub mod Rows
pub mod Streams
pub mod Reading
pub mod Spelled
pub mod Memory
pub mod TokenParts
pub mod Framed
pub mod Numbered
