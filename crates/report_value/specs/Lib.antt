pub mod Views
pub mod Codes
pub mod Kept
pub mod Texts
