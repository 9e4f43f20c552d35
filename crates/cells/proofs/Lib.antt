pub mod Cells
pub mod Twos
