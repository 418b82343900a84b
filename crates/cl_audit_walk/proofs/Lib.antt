pub mod Applying
pub mod Closing
pub mod Iterating
pub mod Nodes
pub mod Paying
pub mod Rules
