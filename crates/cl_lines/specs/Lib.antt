pub mod Costs
pub mod Refusals
pub mod Events
pub mod StateLines
pub mod LineSets
pub mod RowLines
pub mod Rebounds
pub mod Checks
