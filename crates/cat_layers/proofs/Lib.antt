pub mod Tests
pub mod Edits
pub mod Read
pub mod Listed
pub mod Forms
pub mod Offers
pub mod Entities
pub mod Results
