pub mod FreshRows
pub mod Products
pub mod Pairs
