pub mod Answers
pub mod Checking
pub mod Copies
pub mod Files
pub mod Nodes
pub mod Outcomes
pub mod Values
pub mod Verdicts
