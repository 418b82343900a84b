pub mod Audits
pub mod Turns
