pub mod Cones
pub mod Sets
pub mod Minimal
pub mod RowStops
pub mod Represents
