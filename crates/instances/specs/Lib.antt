pub mod Tests
pub mod Table
