pub mod Rows
pub mod Shortest
pub mod Calls
