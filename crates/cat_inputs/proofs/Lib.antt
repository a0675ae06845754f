pub mod Reading
pub mod Steps
pub mod Seen
pub mod Formed
pub mod Documents
