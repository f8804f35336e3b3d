pub mod Settled
pub mod Reopening
