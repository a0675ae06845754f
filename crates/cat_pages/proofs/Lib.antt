pub mod Ordered
pub mod Chunks
pub mod Sorts
pub mod Walks
pub mod Spans
