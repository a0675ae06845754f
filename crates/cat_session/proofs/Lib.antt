pub mod Said
pub mod Takes
pub mod Lines
