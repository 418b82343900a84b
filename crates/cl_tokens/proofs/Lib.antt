pub mod Examples
pub mod Slots
pub mod Balances
pub mod Acts
pub mod AssetActs
pub mod Backs
pub mod AssetBacks
