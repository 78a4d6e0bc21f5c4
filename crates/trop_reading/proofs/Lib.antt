pub mod Samples
pub mod Loops
pub mod Outcomes
pub mod TokenBounds
pub mod NameWords
pub mod WrittenTexts
