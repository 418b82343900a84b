pub mod OpNames
pub mod Nodes
pub mod Typed
pub mod TypedCode
pub mod TypedFalls
pub mod Expression
pub mod Definitions
pub mod Watched
