pub mod Fault
pub mod Mixed
pub mod Refusals
