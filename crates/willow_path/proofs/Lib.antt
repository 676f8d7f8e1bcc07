pub mod PathLimits
pub mod PathBytes
pub mod PathOrder
pub mod PathReading
pub mod PathReads
pub mod PartSuccessor
pub mod PathSuccessor
