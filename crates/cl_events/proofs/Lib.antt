pub mod Genesis
pub mod Holders
