pub mod Links
pub mod Counts
pub mod Changes
pub mod Left
