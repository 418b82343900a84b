pub mod Alike
pub mod Grafting
