pub mod Buffers
pub mod Ending
