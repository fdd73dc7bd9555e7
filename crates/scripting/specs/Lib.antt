pub mod Answers
pub mod Acting
pub mod Consoles
pub mod Replies
