pub mod Accepting
pub mod Listed
pub mod Giving
