pub mod Sessions
pub mod Wires
pub mod Mirrors
pub mod Ends
