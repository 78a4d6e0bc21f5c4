mod Wide
pub mod Writing
pub mod Ending
