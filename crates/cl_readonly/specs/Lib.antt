pub mod Writing
pub mod Publics
pub mod Naming
pub mod Functions
