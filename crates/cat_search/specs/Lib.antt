pub mod Filter
pub mod Walk
pub mod Terms
pub mod Index
