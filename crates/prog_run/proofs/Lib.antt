pub mod Values
pub mod Stacks
pub mod Keeps
pub mod Going
pub mod Causes
pub mod Programs
