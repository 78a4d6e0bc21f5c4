pub mod Standing
pub mod Causes
pub mod Lists
pub mod Stops
pub mod Laws
pub mod Bounds
pub mod Reports
pub mod Refusals
