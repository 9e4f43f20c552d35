pub mod MapPlans
pub mod Offsets
pub mod Heads
