pub mod Free
pub mod Handed
pub mod Serving
