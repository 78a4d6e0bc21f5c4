pub mod Added
pub mod Claims
pub mod Judgeable
pub mod Judged
