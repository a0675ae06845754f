pub mod Reading
pub mod Faults
pub mod Body
pub mod Lent
pub mod Inputs
pub mod Shelf
pub mod WellFormed
