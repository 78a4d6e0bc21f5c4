pub mod Reading
pub mod Grammar
pub mod Reads
pub mod Lists
