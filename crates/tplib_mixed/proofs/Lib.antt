pub mod First
pub mod Laws
pub mod Inequalities
pub mod Reports
pub mod Refusals
