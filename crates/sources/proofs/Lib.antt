pub mod Ids
pub mod Pairs
