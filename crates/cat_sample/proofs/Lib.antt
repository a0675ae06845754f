pub mod Rest
pub mod Counts
