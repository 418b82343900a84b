pub mod Newness
pub mod Laws
