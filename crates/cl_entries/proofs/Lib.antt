pub mod Reached
pub mod Scripts
pub mod Running
