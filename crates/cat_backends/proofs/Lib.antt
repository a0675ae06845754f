pub mod SentStatements
pub mod SentStores
pub mod SentSqlite
pub mod SentMaps
pub mod SentFiles
mod Kept
