pub mod Turns
pub mod TreeParts
pub mod Targets
pub mod Built
