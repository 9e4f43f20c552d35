pub mod Words
pub mod Sets
pub mod Ranks
pub mod Walk
