pub mod FormsOrBreak
pub mod Orders
pub mod WritingDecided
pub mod FirstWrites
pub mod Answered
