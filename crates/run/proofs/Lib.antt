pub mod Turns
pub mod Tables
pub mod Notes
pub mod Sweeps
pub mod Left
