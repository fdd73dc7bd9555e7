pub mod Zones
pub mod Split
pub mod Law
