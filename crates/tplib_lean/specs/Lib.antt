pub mod Refusals
pub mod Printed
pub mod Lean
