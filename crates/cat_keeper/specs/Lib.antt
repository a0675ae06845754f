pub mod Tables
pub mod Store
pub mod Answers
pub mod Memory
