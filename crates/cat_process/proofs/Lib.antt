pub mod Trees
pub mod Repeats
pub mod Cases
pub mod Wanted
pub mod OnShelf
pub mod Whole
pub mod Reading
