pub mod NormalLists
pub mod Lists
pub mod Loops
pub mod Wholes
pub mod Parts
pub mod Steps
pub mod Judged
pub mod Conditions
