pub mod JudgingForms
pub mod Placing
pub mod Checking
