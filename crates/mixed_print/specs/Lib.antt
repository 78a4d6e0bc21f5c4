pub mod Names
pub mod Blocks
pub mod Said
pub mod Made
pub mod Texts
pub mod Refusals
