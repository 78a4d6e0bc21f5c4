pub mod Both
pub mod EqualBytes
pub mod RoundTrips
pub mod Inductive
