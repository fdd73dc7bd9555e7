pub mod Faults
pub mod Calls
pub mod Meaning
pub mod Ends
pub mod Layered
pub mod Wording
