pub mod Concerned
pub mod Marking
pub mod Entered
pub mod Openings
pub mod EnteredCells
