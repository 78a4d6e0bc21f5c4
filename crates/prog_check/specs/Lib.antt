pub mod Limits
pub mod Movable
pub mod Firsts
pub mod Found
pub mod Views
pub mod Truths
