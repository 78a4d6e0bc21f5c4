pub mod Comes
pub mod Fair
pub mod Steps
pub mod Answers
