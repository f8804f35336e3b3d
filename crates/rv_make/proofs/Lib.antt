pub mod MakingLaws
pub mod PlayLaws
pub mod Midway
pub mod Fresh
