pub mod Notes
pub mod Replay
pub mod Book
pub mod Shared
pub mod Closed
