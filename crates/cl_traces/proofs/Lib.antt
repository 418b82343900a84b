pub mod Traced
pub mod Tracing
pub mod Found
pub mod Written
