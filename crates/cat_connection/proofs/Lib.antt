pub mod Fronts
pub mod Preceding
pub mod Running
pub mod Connections
pub mod Wording
pub mod Telling
