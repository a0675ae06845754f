pub mod Listed
pub mod Followed
