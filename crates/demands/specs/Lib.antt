pub mod Reading
pub mod Rows
pub mod Calls
pub mod KeepsStore
pub mod KeepsGlyphs
pub mod ShortestRows
pub mod FewestInnerBits
pub mod NoTrace
