pub mod UserMarks
pub mod Standing
pub mod Ready
pub mod Entering
