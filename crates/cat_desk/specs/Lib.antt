pub mod Deed
pub mod Acts
pub mod Kept
pub mod Asks
pub mod Shown
pub mod Told
pub mod Spare
