pub mod Replies
pub mod Carried
