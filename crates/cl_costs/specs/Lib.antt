pub mod CostFile
pub mod Shapes
pub mod Tables
pub mod Written
pub mod Schedules
pub mod Numbers
