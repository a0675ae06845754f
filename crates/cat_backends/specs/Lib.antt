pub mod Files
pub mod Refusals
pub mod Kept
pub mod Places
