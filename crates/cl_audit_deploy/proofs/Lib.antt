pub mod Forms
pub mod Charges
pub mod Turns
