pub mod Adds
pub mod Members
pub mod Tangent
