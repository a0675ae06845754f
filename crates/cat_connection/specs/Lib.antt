pub mod Items
pub mod Runs
pub mod Worded
pub mod Connection
pub mod Status
