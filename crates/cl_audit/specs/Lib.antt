pub mod Agrees
pub mod Calls
pub mod Told
