pub mod Seen
pub mod Nodes
pub mod Rebounds
pub mod Step
pub mod Laws
pub mod StepRows
