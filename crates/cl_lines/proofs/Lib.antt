pub mod Functions
pub mod InTurn
pub mod LineOrder
pub mod StateText
