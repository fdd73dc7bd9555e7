pub mod Buffers
pub mod Tickets
pub mod Law
