pub mod DeskStates
pub mod Opened
pub mod Stepping
pub mod TurnLaws
