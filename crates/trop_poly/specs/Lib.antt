pub mod Cones
pub mod Sizes
pub mod Bounds
pub mod Outside
pub mod Refusals
pub mod Meets
