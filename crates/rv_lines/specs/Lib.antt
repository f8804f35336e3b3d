pub mod Lines
pub mod Reading
pub mod Found
pub mod LineLaws
pub mod Taken
pub mod TakenLaws
