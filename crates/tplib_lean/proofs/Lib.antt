pub mod Leaned
pub mod Printing
