pub mod Reach
pub mod Gathered
