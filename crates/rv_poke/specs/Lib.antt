pub mod Links
pub mod Bells
pub mod Sessions
pub mod Looking
