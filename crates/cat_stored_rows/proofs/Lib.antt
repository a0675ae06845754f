pub mod In
pub mod Leading
pub mod Needing
pub mod Putting
pub mod Sames
pub mod Telling
pub mod Walking
mod Finding
mod LeadingKeys
