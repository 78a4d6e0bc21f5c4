pub mod Lists
pub mod Sizes
pub mod Entries
pub mod Merged
pub mod Totals
pub mod Passes
pub mod Judged
