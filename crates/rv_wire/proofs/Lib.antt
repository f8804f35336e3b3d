pub mod Each
pub mod ErrorTexts
pub mod Writing
