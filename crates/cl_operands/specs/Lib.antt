pub mod ActParts
pub mod Rows
pub mod Sieved
pub mod Truths
pub mod Ways
