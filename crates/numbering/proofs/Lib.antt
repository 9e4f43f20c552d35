pub mod Starts
pub mod Indexing
pub mod Renumber
pub mod Kept
