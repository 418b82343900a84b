pub mod Examples
pub mod Greatest
pub mod Laws
pub mod Powers
pub mod Ranges
pub mod Bits
