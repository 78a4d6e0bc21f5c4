pub mod Family
pub mod Views
pub mod Stopped
pub mod Stops
pub mod Short
