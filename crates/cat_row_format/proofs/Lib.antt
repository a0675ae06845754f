pub mod Steps
pub mod Digits
pub mod Keys
pub mod Back
pub mod Alone
