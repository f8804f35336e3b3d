pub mod Reads
pub mod Feeds
pub mod Listeners
pub mod Serves
pub mod Makes
pub mod Stores
pub mod Imports
pub mod Follows
