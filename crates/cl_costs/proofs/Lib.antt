mod Examples
mod Mapped
mod Parts
pub mod Functions
mod EachName
mod EveryTable
pub mod Schedules
pub mod SameNumbers
