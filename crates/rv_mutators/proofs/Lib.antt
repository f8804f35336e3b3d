pub mod Picked
pub mod OwnRows
pub mod Changed
pub mod Applied
pub mod Calls
pub mod ReaderLaws
pub mod TouchLaws
