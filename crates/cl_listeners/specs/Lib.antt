pub mod Hearing
pub mod Recording
pub mod Codes
pub mod Laws
