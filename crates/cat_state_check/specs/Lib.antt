pub mod Above
pub mod Candidate
pub mod Indexed
