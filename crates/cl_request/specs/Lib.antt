pub mod Pieces
pub mod Request
