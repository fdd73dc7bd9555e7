pub mod Bools
pub mod Handed
pub mod Refusals
