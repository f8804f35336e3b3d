pub mod Totals
pub mod Moves
pub mod Ways
pub mod Ending
