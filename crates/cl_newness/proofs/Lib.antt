pub mod NoTokens
pub mod NoTokensMade
pub mod Newness
