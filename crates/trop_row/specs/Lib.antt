pub mod Lists
pub mod Reduction
pub mod Mixing
