pub mod Calls
pub mod More
pub mod Steps
pub mod Written
