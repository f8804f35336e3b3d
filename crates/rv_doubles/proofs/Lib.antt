pub mod KnownReads
pub mod MemoryStores
