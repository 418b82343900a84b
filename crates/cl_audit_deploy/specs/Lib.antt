pub mod Deploying
