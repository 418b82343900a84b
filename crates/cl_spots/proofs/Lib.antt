pub mod Begins
pub mod Grafts
