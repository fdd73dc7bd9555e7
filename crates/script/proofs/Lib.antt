pub mod Cuts
pub mod Sums
pub mod Bytes
pub mod Reading
pub mod Skips
pub mod Returns
pub mod Decimals
