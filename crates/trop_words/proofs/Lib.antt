pub mod Decimal
pub mod Spelled
