pub mod Auditing
pub mod Follows
pub mod Compared
pub mod Telling
