pub mod Values
pub mod Answers
pub mod Widened
pub mod Claims
