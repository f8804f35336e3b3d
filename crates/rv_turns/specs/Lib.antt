pub mod Asks
pub mod Outcomes
pub mod Pushing
