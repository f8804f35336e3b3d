pub mod Staging
pub mod Touched
