pub mod Numbers
pub mod Operations
pub mod Bits
pub mod Roots
pub mod Ranges
