pub mod Sources
pub mod Numbers
pub mod Words
pub mod Seen
pub mod Argument
