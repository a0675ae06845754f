pub mod Doors
pub mod Memory
pub mod Counted
pub mod Hall
pub mod Step
pub mod Turn
pub mod Helpers
