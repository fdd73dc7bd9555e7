pub mod Shift
pub mod Shifts
pub mod Transposer
pub mod Adding
pub mod Law
pub mod Folded
