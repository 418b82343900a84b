pub mod State
pub mod Acts
