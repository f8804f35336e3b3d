pub mod Schedule
pub mod Changed
pub mod Named
