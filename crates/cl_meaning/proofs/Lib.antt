pub mod LimitLaws
pub mod Prefixes
pub mod Stops
pub mod Below
pub mod Depth
pub mod Genesis
pub mod Equations
