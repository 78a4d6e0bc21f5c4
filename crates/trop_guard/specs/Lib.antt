pub mod Fresh
pub mod Parts
pub mod Pairs
pub mod Found
pub mod Refusals
