pub mod Views
pub mod Modest
pub mod TreeParts
pub mod Into
pub mod Kept
