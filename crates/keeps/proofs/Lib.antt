pub mod Sums
pub mod Follows
pub mod Stores
pub mod Glyphs
pub mod Leans
pub mod Traces
pub mod Calls
