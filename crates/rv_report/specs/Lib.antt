pub mod Texts
pub mod Lists
pub mod Activity
pub mod Checks
pub mod Counted
pub mod ListLines
pub mod Tallies
pub mod Shown
