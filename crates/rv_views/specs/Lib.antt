pub mod Viewed
pub mod Difference
pub mod DifferenceLaws
pub mod Walks
