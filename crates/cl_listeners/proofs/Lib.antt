mod Heard
mod Underway
mod Parting
