pub mod Limits
pub mod Orders
pub mod Hushing
pub mod Quota
pub mod Law
pub mod Few
pub mod Counts
