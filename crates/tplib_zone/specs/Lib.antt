pub mod Zone
pub mod Refusals
