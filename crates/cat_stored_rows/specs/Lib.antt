pub mod Stored
pub mod First
pub mod Walk
pub mod Told
pub mod Opened
pub mod Differing
