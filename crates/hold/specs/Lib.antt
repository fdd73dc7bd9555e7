pub mod Hold
pub mod Law
pub mod Pedals
