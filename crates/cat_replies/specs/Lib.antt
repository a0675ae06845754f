pub mod Line
pub mod Piece
pub mod Events
pub mod Places
pub mod Shown
pub mod Lists
pub mod Faults
pub mod Asks
