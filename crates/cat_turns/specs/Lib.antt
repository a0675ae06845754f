pub mod Law
pub mod Steps
pub mod Turns
pub mod Closing
