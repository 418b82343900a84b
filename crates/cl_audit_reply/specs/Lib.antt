pub mod Grouped
pub mod Verdicts
pub mod Laws
pub mod Own
