pub mod Log
pub mod Recent
pub mod Machine
pub mod Answer
