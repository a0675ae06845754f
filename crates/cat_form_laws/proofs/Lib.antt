pub mod Bodies
pub mod Ready
pub mod Given
pub mod Documents
pub mod Stored
pub mod Sessions
