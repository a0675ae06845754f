pub mod Kept
pub mod Fed
pub mod Told
pub mod Words
pub mod Again
