pub mod Apart
pub mod Grouping
pub mod TraceFiles
pub mod Once
pub mod There
pub mod ReadBack
pub mod OwnTraces
