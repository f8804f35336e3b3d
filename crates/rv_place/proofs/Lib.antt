pub mod Opening
pub mod Given
pub mod Adopted
