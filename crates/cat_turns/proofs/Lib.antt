pub mod Views
pub mod Steps
pub mod Results
pub mod SentTurns
