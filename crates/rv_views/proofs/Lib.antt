pub mod Merges
pub mod Changes
pub mod DifferenceOrder
