pub mod Examples
pub mod FirstAbove
pub mod Logarithms
pub mod Sums
