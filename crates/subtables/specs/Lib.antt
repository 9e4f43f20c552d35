pub mod Kept
pub mod Written
pub mod Rows
