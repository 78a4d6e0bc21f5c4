pub mod Readings
pub mod Searches
pub mod Words
pub mod Sides
