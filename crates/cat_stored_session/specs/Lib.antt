pub mod Kept
pub mod Carried
pub mod About
pub mod Wire
pub mod Stores
pub mod Sittings
