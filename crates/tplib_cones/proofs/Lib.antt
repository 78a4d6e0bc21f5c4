pub mod Lifted
pub mod Reduced
pub mod Independent
pub mod ConeFiles
pub mod LineByLine
