pub mod BaseLaws
pub mod Difference
pub mod NewsLaws
pub mod RecordLaws
pub mod Searched
pub mod Puts
pub mod Versions
pub mod ReadLaws
