pub mod Browser
pub mod Tokens
