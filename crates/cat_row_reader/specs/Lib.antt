pub mod Start
pub mod Read
pub mod Standing
pub mod Candidate
pub mod Forms
