pub mod NodesName
pub mod Walked
pub mod Equal
pub mod Rows
pub mod Visited
pub mod Each
pub mod NamesFound
