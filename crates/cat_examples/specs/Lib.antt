pub mod Sessions
pub mod Entities
