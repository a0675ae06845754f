pub mod Cuts
pub mod Found
pub mod Valued
pub mod Listed
pub mod Finds
pub mod Entries
pub mod Counted
