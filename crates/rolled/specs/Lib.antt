pub mod Rolled
pub mod Chains
