pub mod Rows
pub mod Stack
pub mod Sitting
pub mod Answer
pub mod Speaking
pub mod Table
