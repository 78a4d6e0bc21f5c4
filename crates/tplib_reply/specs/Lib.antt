pub mod FaultTexts
pub mod StopTexts
pub mod Refusals
pub mod Meaning
