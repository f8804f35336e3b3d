pub mod Records
pub mod Views
pub mod Exports
pub mod Left
pub mod RowReading
pub mod Writing
