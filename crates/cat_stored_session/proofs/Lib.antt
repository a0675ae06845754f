pub mod Lines
pub mod Beyond
pub mod Sound
pub mod Serving
mod Statuses
