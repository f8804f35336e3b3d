pub mod Numbers
pub mod Table
pub mod Words
pub mod Plain
pub mod Properties
pub mod ServeProperties
pub mod FollowProperties
