pub mod Kept
pub mod Small
pub mod Polars
pub mod Appended
pub mod Compared
pub mod Generators
pub mod Parts
