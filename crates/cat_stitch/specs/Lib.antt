pub mod Uid
pub mod Issues
pub mod Document
