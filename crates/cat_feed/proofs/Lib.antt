pub mod Finds
pub mod Walked
pub mod Leads
pub mod Kept
pub mod Asked
pub mod Texts
pub mod Mirrored
