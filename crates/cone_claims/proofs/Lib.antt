pub mod Loops
pub mod GuardPoints
pub mod TermSums
pub mod Proven
