pub mod HelloForm
pub mod HelloReading
pub mod Memory
pub mod HelloSteps
pub mod Checked
pub mod Proof
pub mod Common
pub mod Version
