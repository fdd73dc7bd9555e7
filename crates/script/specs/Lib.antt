pub mod Words
pub mod Numbers
pub mod Meanings
pub mod Lines
pub mod Laws
