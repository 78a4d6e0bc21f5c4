pub mod Halves
pub mod Doubled
