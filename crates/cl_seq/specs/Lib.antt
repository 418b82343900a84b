pub mod Fine
pub mod Merging
