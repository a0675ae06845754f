pub mod Noting
pub mod Ranks
pub mod Firsts
pub mod Wrongs
pub mod Climbing
pub mod Telling
pub mod Reading
pub mod Parting
