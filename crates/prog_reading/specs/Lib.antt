pub mod Left
pub mod Gives
pub mod Rules
pub mod Firsts
pub mod SideParts
