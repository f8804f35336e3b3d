pub mod Members
pub mod Calls
pub mod Bodies
pub mod Answers
pub mod Errors
