pub mod Rows
pub mod Terms
pub mod Index
pub mod Bytes
pub mod Marks
