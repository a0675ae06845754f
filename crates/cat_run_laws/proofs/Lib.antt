pub mod Keeping
pub mod Connected
pub mod Journals
