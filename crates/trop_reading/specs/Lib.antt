pub mod Words
pub mod Gives
pub mod Outcome
pub mod InLines
