pub mod Parts
pub mod Stays
pub mod Called
pub mod Sorted
pub mod Moves
pub mod Whole
pub mod Held
pub mod Gathering
