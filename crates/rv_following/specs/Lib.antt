pub mod FollowLines
pub mod FollowReads
pub mod FollowSteps
pub mod FollowProperties
