pub mod HelloReads
pub mod WholeText
pub mod InFront
pub mod Meaning
pub mod Granting
pub mod Beginning
