pub mod Statuses
pub mod Counting
pub mod Talking
pub mod Asked
pub mod Conns
pub mod Hearing
pub mod Links
