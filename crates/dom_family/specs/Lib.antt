pub mod Claims
pub mod Family
