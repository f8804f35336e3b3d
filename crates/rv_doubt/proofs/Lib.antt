pub mod Holding
pub mod Leaving
