pub mod Separated
pub mod Systems
