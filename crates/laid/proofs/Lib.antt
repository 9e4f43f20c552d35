pub mod Cells
pub mod Store
pub mod Regions
pub mod Subtable
pub mod Map
pub mod Table
