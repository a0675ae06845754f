pub mod Bytes
pub mod Layered
pub mod Trees
pub mod Forms
