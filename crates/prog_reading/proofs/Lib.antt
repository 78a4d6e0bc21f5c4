pub mod Places
pub mod Sizes
pub mod Follow
pub mod OperandSteps
pub mod Links
pub mod ConditionSteps
pub mod TermSteps
