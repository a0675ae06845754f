pub mod Pieces
pub mod Digits
pub mod Words
pub mod Routing
pub mod SentRoutes
pub mod Files
