pub mod StatementSteps
pub mod VerbSteps
pub mod NameSteps
pub mod ProgramSteps
pub mod PartSteps
pub mod Outcomes
pub mod RowSteps
pub mod Stops
