pub mod Real
pub mod Ready
pub mod Documents
