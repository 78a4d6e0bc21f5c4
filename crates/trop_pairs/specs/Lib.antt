pub mod Early
pub mod Sums
