pub mod MaxPlus
pub mod MaxPlusLaws
pub mod MinPlus
pub mod MinPlusLaws
pub mod Sums
pub mod Truth
pub mod TruthLaws
pub mod Words
