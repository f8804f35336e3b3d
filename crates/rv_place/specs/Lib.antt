pub mod Files
pub mod BlankLaws
pub mod FileLaws
pub mod Stored
pub mod StoredLaws
pub mod Places
pub mod PlaceLaws
