pub mod Deeds
pub mod Operations
pub mod Wire
pub mod Answering
pub mod Room
pub mod Senders
