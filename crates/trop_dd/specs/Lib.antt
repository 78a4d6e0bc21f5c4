pub mod Description
pub mod Numbers
pub mod Carried
pub mod Parts
pub mod Steps
pub mod Settled
pub mod Sound
pub mod Units
