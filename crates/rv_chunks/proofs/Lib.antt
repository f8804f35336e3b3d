pub mod Edited
pub mod Rising
pub mod Searched
