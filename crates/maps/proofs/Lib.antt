pub mod Counts
pub mod Most
pub mod Ahead
pub mod Plans
pub mod Bytes
pub mod Limits
