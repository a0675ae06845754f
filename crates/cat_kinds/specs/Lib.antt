pub mod Mentions
pub mod Kinds
pub mod Whole
