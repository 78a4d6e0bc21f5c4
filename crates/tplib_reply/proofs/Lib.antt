pub mod WrittenPieces
pub mod Refused
pub mod Unstopped
pub mod Steps
