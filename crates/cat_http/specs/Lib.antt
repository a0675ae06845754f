pub mod Content
pub mod Lines
pub mod Head
pub mod Status
pub mod Message
pub mod Reply
pub mod Errors
pub mod Found
