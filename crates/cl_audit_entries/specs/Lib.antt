pub mod Ending
pub mod Seen
pub mod Agreeing
pub mod Calling
pub mod Deploying
