pub mod Status
pub mod Streams
pub mod Analyses
pub mod Commands
pub mod Ends
