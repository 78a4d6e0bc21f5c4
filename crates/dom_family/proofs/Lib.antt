pub mod Claims
pub mod Lengths
pub mod Zips
pub mod Family
