pub mod Parts
pub mod Loops
pub mod EndLine
pub mod ReadBack
