pub mod Planned
pub mod Shelf
pub mod OwnChanges
pub mod Stepped
pub mod Coming
pub mod Again
