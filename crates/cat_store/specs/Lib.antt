pub mod Narrow
pub mod Boxed
pub mod Opened
pub mod Tells
pub mod Refused
