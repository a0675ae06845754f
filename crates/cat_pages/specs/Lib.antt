pub mod Page
pub mod Seen
pub mod SeenPage
pub mod Walked
