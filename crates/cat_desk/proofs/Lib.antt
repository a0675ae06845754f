pub mod Acting
pub mod Asked
pub mod Shown
pub mod Telling
pub mod Again
pub mod Answered
