pub mod Reads
pub mod Given
pub mod Options
pub mod Words
