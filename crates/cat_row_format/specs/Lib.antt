pub mod Names
pub mod Text
pub mod Formed
pub mod Spelled
pub mod Parsed
