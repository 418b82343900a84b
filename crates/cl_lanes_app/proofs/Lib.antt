pub mod Reported
pub mod Ran
pub mod Drawing
pub mod Once
pub mod Left
pub mod Replied
