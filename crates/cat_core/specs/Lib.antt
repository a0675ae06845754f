pub mod Answer
pub mod Kept
pub mod Least
pub mod Numbered
pub mod Waits
