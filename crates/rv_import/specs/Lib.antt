pub mod Imports
pub mod Importing
pub mod Steps
pub mod ActsOnce
