pub mod Renewed
pub mod Places
pub mod Told
pub mod Right
