pub mod Lines
pub mod Serials
pub mod Log
pub mod Text
pub mod Law
pub mod Written
