pub mod Areas
pub mod Classes
pub mod Placing
pub mod Marking
pub mod Plans
