pub mod Project
pub mod Query
pub mod Cursor
pub mod SeenQuery
pub mod Facets
pub mod Answers
