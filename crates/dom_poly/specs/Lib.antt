pub mod Views
pub mod Kept
pub mod Answers
pub mod Lists
