pub mod Caps
pub mod Tallies
pub mod Searches
