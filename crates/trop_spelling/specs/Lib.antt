pub mod Spelling
pub mod SpellingLaws
pub mod Over
pub mod Printed
pub mod Elements
pub mod Inequalities
pub mod Parts
