pub mod Fits
pub mod Subtables
pub mod Maps
pub mod Answers
pub mod Agree
