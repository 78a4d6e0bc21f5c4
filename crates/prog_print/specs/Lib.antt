pub mod Levels
pub mod Texts
