pub mod Part
pub mod Grown
pub mod Ordered
pub mod Collecting
