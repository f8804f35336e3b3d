pub mod Pokes
pub mod Watching
