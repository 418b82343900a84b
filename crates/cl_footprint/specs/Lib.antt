pub mod NodeUses
pub mod Gathering
pub mod Going
pub mod Named
