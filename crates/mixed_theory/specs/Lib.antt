pub mod Twins
pub mod Halves
pub mod Claims
pub mod Mixed
