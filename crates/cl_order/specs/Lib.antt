pub mod Index
pub mod Naming
pub mod Search
