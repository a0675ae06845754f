pub mod Orders
pub mod Reverses
pub mod Whole
