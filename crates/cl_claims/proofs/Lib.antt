pub mod Splitting
pub mod LineParts
pub mod Lined
pub mod Parsing
