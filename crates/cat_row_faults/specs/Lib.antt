pub mod Readings
pub mod Told
pub mod Rules
pub mod First
pub mod Named
pub mod Difference
