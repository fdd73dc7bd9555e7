pub mod Deep
pub mod Acts
