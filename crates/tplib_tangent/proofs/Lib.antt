pub mod Places
pub mod Members
pub mod EdgeLines
pub mod SolutionTexts
