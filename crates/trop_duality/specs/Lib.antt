pub mod Polars
pub mod External
pub mod PolarStops
pub mod Separation
pub mod Barriers
pub mod Lean
pub mod LeanStops
