pub mod Followed
pub mod Reached
