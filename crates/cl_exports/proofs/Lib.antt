pub mod Answering
pub mod Copies
pub mod Endings
pub mod Judging
pub mod Openings
pub mod Tables
