pub mod Contents
pub mod Seen
pub mod Standing
pub mod Standings
pub mod Known
