pub mod Texts
pub mod AssertNumbers
