pub mod Laws
pub mod Ends
pub mod Whole
pub mod Loops
pub mod ListLaws
pub mod SeparatedLaws
