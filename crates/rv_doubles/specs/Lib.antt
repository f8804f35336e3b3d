pub mod InMemory
pub mod InMemoryLaws
pub mod MemoryStores
pub mod PlaceStates
pub mod AbsentStoreLaws
pub mod MemoryLinks
pub mod Stocks
pub mod MemoryGates
