pub mod Sound
pub mod Laws
pub mod Told
