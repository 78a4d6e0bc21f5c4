pub mod Verbs
pub mod ReadParts
pub mod Naming
pub mod Outcomes
pub mod RowParts
pub mod TraceOutcomes
