pub mod ConeFiles
pub mod Reduce
pub mod Ext
