pub mod HeadReads
pub mod InFront
pub mod OneAnswer
pub mod OneDimension
pub mod Writing
