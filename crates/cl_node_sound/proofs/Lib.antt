pub mod SameContracts
pub mod Enough
pub mod Calling
pub mod Deploying
pub mod Constants
pub mod Entries
pub mod NewContracts
pub mod KnownStay
pub mod BoundsSeen
pub mod Told
mod Rebounds
