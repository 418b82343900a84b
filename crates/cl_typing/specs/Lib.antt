pub mod Branches
pub mod Stated
pub mod Tuples
pub mod Uses
pub mod Verdicts
