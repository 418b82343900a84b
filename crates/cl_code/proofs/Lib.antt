pub mod Weights
pub mod Versions
