pub mod Within
pub mod Steps
pub mod Traces
pub mod Asked
pub mod Ends
pub mod Calling
pub mod Deploying
pub mod Trials
