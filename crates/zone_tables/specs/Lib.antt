pub mod Tables
pub mod Sizes
pub mod Large
pub mod Kept
pub mod Changes
pub mod Passes
