pub mod Messages
pub mod Offers
pub mod Process
pub mod Whole
