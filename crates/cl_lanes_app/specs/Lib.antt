pub mod Words
pub mod Draws
pub mod Left
pub mod Reports
pub mod Top
pub mod Running
pub mod Replying
