pub mod Positions
pub mod Turned
pub mod Nobody
pub mod Fronts
pub mod Counted
