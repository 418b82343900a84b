pub mod Entries
pub mod Reached
pub mod Taken
pub mod Along
pub mod Here
pub mod Counted
