pub mod Costs
pub mod Functions
pub mod Limits
pub mod Names
