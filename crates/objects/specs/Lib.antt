pub mod Offsets
pub mod Runs
