pub mod Shown
pub mod Views
pub mod Stacks
pub mod Ready
pub mod Causes
pub mod Traces
