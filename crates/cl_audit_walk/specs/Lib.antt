pub mod Looking
pub mod Evaluates
pub mod Calls
pub mod Turns
