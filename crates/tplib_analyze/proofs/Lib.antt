pub mod Suits
pub mod Parts
pub mod Passes
pub mod Refusals
pub mod Reports
pub mod Family
pub mod Texts
