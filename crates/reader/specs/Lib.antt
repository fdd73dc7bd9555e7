pub mod Rules
pub mod Ranges
pub mod Ahead
pub mod Steps
pub mod Laws
