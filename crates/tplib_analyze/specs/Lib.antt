pub mod Family
pub mod Stops
pub mod Defined
pub mod Visits
pub mod Analyze
pub mod Stopped
pub mod Parts
pub mod Made
