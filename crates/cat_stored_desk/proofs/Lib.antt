pub mod Deeds
pub mod Followed
pub mod Beyond
pub mod Lost
