pub mod ByName
pub mod Found
pub mod Texts
pub mod Trees
