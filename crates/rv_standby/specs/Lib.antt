pub mod Following
pub mod FollowingProperties
pub mod Shipping
