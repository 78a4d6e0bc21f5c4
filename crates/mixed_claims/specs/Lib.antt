pub mod Terms
pub mod Sides
