pub mod Uids
pub mod Routes
pub mod Paths
pub mod Refusals
pub mod Bodies
pub mod Requests
pub mod Answers
