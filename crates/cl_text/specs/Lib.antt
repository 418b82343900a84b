pub mod Printed
pub mod Literal
pub mod Parsed
pub mod Spelled
pub mod PrintedTypes
pub mod Named
