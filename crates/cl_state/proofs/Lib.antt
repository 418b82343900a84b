pub mod Examples
pub mod Layers
pub mod Holders
pub mod StxSupply
pub mod TokenActs
pub mod Listed
pub mod ToldStates
