pub mod Printing
pub mod Machine
