pub mod Plans
pub mod Fits
pub mod Lows
pub mod Wholes
pub mod Writing
pub mod Subtables
