pub mod Notes
pub mod Loops
pub mod Below
pub mod Gone
pub mod Silent
pub mod Onward
pub mod Work
