pub mod Fronts
pub mod Turns
pub mod Refusals
pub mod Certificates
