pub mod Components
pub mod SameTexts
pub mod Digits
pub mod WordSources
pub mod Arguments
mod Few
