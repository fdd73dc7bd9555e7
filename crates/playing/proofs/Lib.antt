pub mod Closings
mod Pushes
