pub mod ThreeItems
pub mod CellsRead
pub mod Followed
pub mod Shipped
