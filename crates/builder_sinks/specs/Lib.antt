pub mod Examples
pub mod Latched
pub mod Windless
