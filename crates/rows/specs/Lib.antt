pub mod Area
pub mod Planned
pub mod Place
pub mod Length
