pub mod Sound
pub mod Named
pub mod Fitted
pub mod Moves
pub mod Kept
pub mod Widened
