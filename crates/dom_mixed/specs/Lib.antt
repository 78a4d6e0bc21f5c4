pub mod Doubled
pub mod Answers
