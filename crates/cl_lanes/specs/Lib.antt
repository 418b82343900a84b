pub mod Lanes
pub mod Same
pub mod Laws
pub mod Held
pub mod Ready
pub mod Progress
pub mod Committing
pub mod InTurn
