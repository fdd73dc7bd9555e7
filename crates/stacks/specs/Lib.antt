pub mod Kinds
pub mod Voices
pub mod Consoles
