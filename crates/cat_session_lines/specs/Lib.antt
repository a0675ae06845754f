pub mod Keywords
pub mod Arguments
pub mod Faults
pub mod Queries
pub mod References
pub mod Lines
pub mod Ready
