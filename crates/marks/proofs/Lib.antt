pub mod Marks
pub mod Spots
pub mod Batches
