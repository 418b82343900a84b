pub mod Inputs
pub mod Spelling
pub mod Checked
pub mod Reports
pub mod Kept
