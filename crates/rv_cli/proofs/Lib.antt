pub mod Going
pub mod Taken
pub mod Ended
pub mod Taking
pub mod Storing
pub mod Serving
pub mod Fed
pub mod Sound
mod Inputs
mod Imported
mod Reporting
mod Steady
mod Kept
mod Obeying
pub mod FollowTaken
pub mod Followed
