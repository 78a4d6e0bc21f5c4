pub mod AssertNumbers
pub mod Loops
