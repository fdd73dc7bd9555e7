pub mod Notes
pub mod Voices
pub mod Rolls
