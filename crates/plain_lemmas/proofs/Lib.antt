pub mod Decisions
pub mod Operations
pub mod Tallies
pub mod Lists
pub mod Distinct
