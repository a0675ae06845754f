pub mod Kept
pub mod Parted
pub mod Spelled
pub mod Numbers
pub mod Texts
