pub mod Waiting
pub mod Sums
pub mod Indexed
pub mod Least
