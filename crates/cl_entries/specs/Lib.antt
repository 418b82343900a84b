pub mod Scripts
pub mod Entries
