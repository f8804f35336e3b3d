pub mod Chunking
pub mod Vectors
pub mod IndexLaws
