pub mod Following
pub mod KeptLaws
pub mod Shown
pub mod Standing
