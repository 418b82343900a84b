pub mod Fitted
pub mod Stages
pub mod Sound
pub mod Laws
