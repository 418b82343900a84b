pub mod Own
pub mod Charged
pub mod Seen
pub mod Known
pub mod Reaches
