pub mod Program
pub mod Session
pub mod Quiet
pub mod Inputs
pub mod Words
