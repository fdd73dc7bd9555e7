pub mod Table
pub mod Tickets
pub mod Tallies
